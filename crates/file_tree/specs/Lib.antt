pub mod Tree
pub mod Walk
pub mod Template
pub mod Written
pub mod Listing
