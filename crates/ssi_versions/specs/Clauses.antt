-- Conditions: what a caller has to keep. ByStamp: versions in the order of their stamps.
pub mod Conditions
pub mod ByStamp
