pub mod Capping
pub mod Dearness
pub mod Lowest
pub mod Numbering
pub mod Tabling
