-- What the promises mean.
pub mod Verdicts
pub mod Serializable
