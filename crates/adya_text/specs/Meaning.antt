-- What the promises mean.
pub mod Texts
