-- What only this crate's loops and tables need.
pub mod Marks
pub mod NodeSets
pub mod Placings
pub mod Traces
