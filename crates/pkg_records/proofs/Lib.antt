pub mod CopyLemmas
pub mod KeptLemmas
