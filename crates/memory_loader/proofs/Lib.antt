mod KeptLemmas
mod NextLemmas
mod RegistryLemmas
