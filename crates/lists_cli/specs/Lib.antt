pub mod Meaning
pub mod Clauses
