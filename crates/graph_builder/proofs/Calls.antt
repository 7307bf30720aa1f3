-- The public calls.
pub mod Keeps
pub mod Meant
pub mod Entered
pub mod Started
pub mod Waiting
pub mod Dues
pub mod Builds
pub mod Going
pub mod Learned
pub mod Finished
pub mod Driven
pub mod Spending
pub mod Copies
