pub mod Media
pub mod ContentType
pub mod Decode
