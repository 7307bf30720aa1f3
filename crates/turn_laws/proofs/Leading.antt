-- Known redirects: where they end, whether they lead back, and how both change with a graph.
pub mod Paths
pub mod Circles
