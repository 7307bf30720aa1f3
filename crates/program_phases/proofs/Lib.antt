pub mod CallsWithin
pub mod Empty
pub mod Given
pub mod Told
pub mod Finishes
