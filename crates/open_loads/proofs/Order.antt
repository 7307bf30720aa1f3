-- Turns from any order of arrival.
pub mod Tickets
pub mod Opening
pub mod Dues
pub mod Steps
pub mod Placing
pub mod Coming
pub mod InOrder
pub mod Rounds
pub mod Counts
pub mod Stores
pub mod Used
pub mod Caught
pub mod Telling
pub mod Wanted
pub mod Waited
pub mod KeptStores
