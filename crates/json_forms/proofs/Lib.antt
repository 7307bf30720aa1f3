pub mod NoFloats
mod DistinctLemmas
pub mod Options
pub mod DictionaryLemmas
pub mod RoundTrip
mod InfoRoundTrip
