-- What only this crate's loops and tables need.
pub mod Snapshots
pub mod Plain
pub mod Keyed
