pub mod WalkReached
