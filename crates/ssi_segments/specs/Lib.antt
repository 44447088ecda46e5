-- Segments: what they are, and what their transactions are together.
pub mod Meaning
pub mod Laws
