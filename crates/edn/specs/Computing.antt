-- Reading from left to right.
pub mod Strings
pub mod Tokens
pub mod Plain
pub mod Gaps
pub mod Building
pub mod Stacks
pub mod Stages
