-- What a call promises of its graph: what it reaches, what explains a slot, and when a graph is whole.
pub mod Cached
pub mod Input
pub mod Told
pub mod Versions
pub mod Packages
pub mod Forbidden
pub mod Taken
pub mod Slots
pub mod Refusals
pub mod Contents
pub mod Reached
pub mod Explains
pub mod Choices
pub mod Runs
pub mod Static
