pub mod Leading
pub mod Entering
pub mod Promise
pub mod Budget
pub mod Static
