-- What a log of lines says of a store.
pub mod Meaning
pub mod Clauses
pub mod Mirror
pub mod Machinery
