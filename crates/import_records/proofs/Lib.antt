mod KindLemmas
mod Offers
mod Grouping
mod PutLemmas
mod EntryLemmas
mod ImportLemmas
mod ToldLemmas
