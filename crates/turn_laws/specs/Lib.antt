pub mod Promise
pub mod Budget
