pub mod Entering
pub mod Stepping
