pub mod Program
pub mod Price
pub mod Run
pub mod Laws
pub mod Promise
