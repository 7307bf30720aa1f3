-- That nothing is left out, and that all is explained.
pub mod Begun
