pub mod FilledLemmas
pub mod NotedLemmas
