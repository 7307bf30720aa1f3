pub mod TimeLemmas
mod KeyLemmas
