-- Pairs: pairs and pivots. Allowed: what a caller has to keep.
pub mod Pairs
pub mod Allowed
