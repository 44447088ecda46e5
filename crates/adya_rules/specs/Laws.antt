-- What follows from the definitions.
pub mod FirstFaults
pub mod Faults
