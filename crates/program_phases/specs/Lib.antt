pub mod Sums
pub mod Outcome
pub mod Completes
pub mod Phases
