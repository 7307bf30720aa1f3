pub mod HeaderLemmas
pub mod Ascending
pub mod Firsts
pub mod OrderLemmas
pub mod SourceLemmas
pub mod SameAnswers
pub mod EntryLemmas
mod ReadBack
mod MemberLemmas
mod KeyLemmas
