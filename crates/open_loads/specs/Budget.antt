-- How many questions are put, whoever answers.
pub mod Open
pub mod Runs
