mod EntryLemmas
mod EntryWords
mod OutsetLemmas
mod RedirectLemmas
mod RootLemmas
mod SlotLemmas
pub mod Standing
