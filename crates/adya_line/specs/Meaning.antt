-- What the promises mean.
pub mod Spelling
pub mod Limits
pub mod Lines
