-- What a call promises of its graph: what it reaches, what explains a slot, and when a graph is whole.
pub mod Keeps
pub mod Complete
pub mod Reloads
pub mod Reloaded
pub mod Whole
