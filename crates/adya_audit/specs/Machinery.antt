-- What only this crate's loops and tables need.
pub mod ExactlyTheCommitted
pub mod Refusals
