pub mod Answering
pub mod Builds
pub mod Questions
pub mod Driven
pub mod Inputs
pub mod Replays
