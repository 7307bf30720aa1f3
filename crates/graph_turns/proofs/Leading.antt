-- Known redirects: where they end, whether they lead back, and how both change with a graph.
pub mod Follow
pub mod Ends
pub mod Back
pub mod Ways
pub mod Loops
