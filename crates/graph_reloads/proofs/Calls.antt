-- The public calls.
pub mod Over
pub mod Packages
pub mod Again
