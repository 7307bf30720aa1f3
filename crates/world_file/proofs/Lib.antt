mod InputLemmas
mod NpmGrammar
mod PackageLemmas
mod RegistryLemmas
mod WorldReading
