-- What only the loops and calls of this crate need.
pub mod Faults
pub mod Noting
