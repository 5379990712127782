pub mod Row
pub mod Rows
pub mod Reads
pub mod Reach
pub mod Refusal
pub mod Validation
pub mod Laws
