pub mod Dates
pub mod Times
pub mod ErrorTexts
pub mod Sets
