pub mod UrlLemmas
pub mod Registry
