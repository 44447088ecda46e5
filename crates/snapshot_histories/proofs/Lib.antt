pub mod Commits
pub mod Turns
pub mod Cycles
