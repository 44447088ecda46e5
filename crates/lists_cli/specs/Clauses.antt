-- Why there is no answer, and what a part of one is.
pub mod Faults
