-- What entering loads keep, measured and covered.
pub mod Placed
pub mod Sums
pub mod Made
