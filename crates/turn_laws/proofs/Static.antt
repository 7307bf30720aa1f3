-- Static before dynamic: what a walk that follows no dynamic import finds is what static imports give.
pub mod Past
pub mod PastGiven
pub mod PastPasses
pub mod Part
pub mod ReachedStatically
pub mod StaticPasses
pub mod Turns
pub mod First
