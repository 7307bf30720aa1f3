pub mod Told
pub mod Handed
pub mod Going
pub mod Reaching
pub mod Left
pub mod Ends
pub mod Costs
pub mod Spent
