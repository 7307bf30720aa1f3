-- Questions under tickets, and answers in any order of arrival.
pub mod OpenLoads
pub mod Means
pub mod Asking
pub mod Unused
pub mod Numbered
pub mod Ordered
pub mod Entered
