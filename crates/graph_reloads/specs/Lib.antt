pub mod Packages
