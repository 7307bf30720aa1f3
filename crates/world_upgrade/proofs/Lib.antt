mod UrlLemmas
mod HeaderLemmas
mod ToldLemmas
mod EntryLemmas
mod LineLemmas
mod SameMembers
mod Sizes
mod Laws
