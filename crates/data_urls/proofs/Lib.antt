mod MarkLemmas
mod SpellingLemmas
