mod ByKind
mod Earlier
mod Marking
pub mod Numbering
pub mod Options
mod Placing
pub mod Programs
pub mod Reaching
pub mod Refusing
pub mod Shape
pub mod Tables
pub mod Unless
pub mod Validated
