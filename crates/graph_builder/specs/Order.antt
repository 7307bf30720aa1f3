-- Open tickets of a loader.
pub mod InFlight
