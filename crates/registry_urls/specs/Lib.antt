pub mod Registry
pub mod Packages
pub mod Prefix
pub mod Names
pub mod InPackage
pub mod Default
pub mod Plain
pub mod Meaning
