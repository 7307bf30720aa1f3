pub mod Form
pub mod Member
pub mod Keyed
pub mod Whole
pub mod Rows
pub mod Dictionary
pub mod Range
pub mod Infos
