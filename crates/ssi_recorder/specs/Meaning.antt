-- What the promises mean.
pub mod Recorded
