-- What the promises mean.
pub mod Phenomena
pub mod Status
