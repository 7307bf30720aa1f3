-- That no question is put twice.
pub mod Pairs
pub mod Named
pub mod Answers
pub mod Loops
pub mod Known
pub mod Packages
pub mod Resting
pub mod Deferred
pub mod Beside
pub mod Filled
pub mod Contents
pub mod Versions
pub mod Wanted
pub mod Passes
pub mod Goes
pub mod Counts
