pub mod Slots
pub mod Modules
