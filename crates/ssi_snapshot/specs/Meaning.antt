-- What the promises mean.
pub mod Reached
