-- That no question is put twice.
pub mod Put
pub mod Orderly
pub mod Files
pub mod Opens
pub mod Reaching
pub mod Room
pub mod Ran
pub mod Asked
pub mod Spent
