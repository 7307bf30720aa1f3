pub mod Order
pub mod Budget
pub mod Faults
pub mod Taught
