pub mod Meaning
pub mod Clauses
pub mod Computing
pub mod Machinery
pub mod Laws
pub mod Mirror
