-- What the promises mean, here of keys, values and numbers.
pub mod Keys
