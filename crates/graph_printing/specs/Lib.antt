pub mod Commands
pub mod WalkLines
pub mod Printed
pub mod Verdicts
