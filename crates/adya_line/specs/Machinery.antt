-- What only this crate's loops and tables need.
pub mod Fronts
pub mod Numbers
