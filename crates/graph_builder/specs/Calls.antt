-- What the public calls do to a build, and what holds of it between two of them.
pub mod Makers
pub mod Loaders
pub mod Steps
pub mod Over
pub mod Builds
pub mod Driven
