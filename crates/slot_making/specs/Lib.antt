pub mod Made
pub mod Makers
pub mod Filled
