pub mod Runner
pub mod Refusals
pub mod Answers
