-- Loads: the first lines of a segment. Loaded: what they lead to.
pub mod Meaning
pub mod Laws
