-- Snapshots: snapshot histories, dangerous structures and safe histories. Cycles: when a cycle holds one.
pub mod Snapshots
pub mod Cycles
