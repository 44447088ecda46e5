-- Plain functions that compute what the promises mean.
pub mod Reading
