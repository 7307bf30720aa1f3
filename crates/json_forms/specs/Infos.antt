-- What is known of modules as JSON, both ways.
pub mod Attributes
pub mod References
pub mod Argument
pub mod Descriptor
pub mod Info
