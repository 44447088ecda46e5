-- What the promises mean.
pub mod Changes
