mod ReadLemmas
mod WriteLemmas
