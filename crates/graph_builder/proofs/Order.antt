-- Turns from any order of arrival.
pub mod Drives
pub mod Matching
