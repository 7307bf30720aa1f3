pub mod LineLemmas
pub mod StoreLemmas
pub mod FaultLemmas
pub mod OverLemmas
pub mod LockLemmas
pub mod FitLemmas
pub mod LeftLemmas
pub mod FinishLemmas
