pub mod Yes
pub mod Runs
pub mod ListWords
