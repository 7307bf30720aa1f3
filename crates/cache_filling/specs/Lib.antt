pub mod Filled
pub mod Copies
pub mod Noted
