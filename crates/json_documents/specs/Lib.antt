pub mod Whole
pub mod Documents
pub mod Names
