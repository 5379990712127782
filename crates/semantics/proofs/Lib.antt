pub mod Alike
pub mod Members
pub mod Naming
pub mod Paying
pub mod Pricing
pub mod Promised
