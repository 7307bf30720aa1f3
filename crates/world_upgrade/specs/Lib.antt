pub mod Told
pub mod EntryJson
pub mod Upgraded
