pub mod Generator
pub mod Modules
pub mod Generation
pub mod Generated
