pub mod RunLemmas
pub mod ShownLemmas
mod SortedLemmas
pub mod CopyLemmas
mod ByText
pub mod PlaceLemmas
