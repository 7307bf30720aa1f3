pub mod Kept
pub mod KeptViews
