pub mod Greatest
pub mod ChoiceLemmas
pub mod RegistryLemmas
pub mod TimeReading
pub mod Insertions
pub mod FileReading
pub mod FileForms
