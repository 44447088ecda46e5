-- What the calls of a log may fail with.
pub mod Faults
