pub mod Edges
pub mod Graphs
pub mod Steps
