pub mod Promise
pub mod Machine
