pub mod Table
pub mod Refusals
pub mod Answers
pub mod Laws
