mod CutLemmas
mod PrefixLemmas
mod PathLemmas
mod NameLemmas
pub mod FolderLemmas
pub mod PlainLemmas
mod RoundTrip
