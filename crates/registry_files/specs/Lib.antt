pub mod VersionFiles
pub mod Sums
pub mod Exports
pub mod Answers
pub mod Kept
