-- What only this crate's loops and tables need.
pub mod Listed
pub mod Prefixes
pub mod Indexed
pub mod Ranged
