-- What the promises mean, in reading order.
pub mod Calls
pub mod Kept
