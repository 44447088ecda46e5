-- Pairs and pivots call by call.
pub mod Steps
