pub mod Leading
pub mod Entering
