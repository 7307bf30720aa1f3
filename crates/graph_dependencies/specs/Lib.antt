pub mod Kinds
pub mod Included
pub mod Assets
