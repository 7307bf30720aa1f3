-- How many questions are put.
pub mod Covers
pub mod Asked
