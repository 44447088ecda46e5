-- What only this crate's loops and tables need.
pub mod Appending
pub mod Seeing
pub mod Running
pub mod Wholeness
pub mod Precedences
