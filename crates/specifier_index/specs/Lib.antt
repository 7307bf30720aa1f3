pub mod EntryOrder
pub mod SpecifierTable
