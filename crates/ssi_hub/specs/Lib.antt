pub mod Clauses
pub mod Machinery
pub mod Mirror
