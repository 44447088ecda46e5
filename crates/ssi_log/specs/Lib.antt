-- What a crash leaves of a log.
pub mod Meaning
pub mod Clauses
pub mod Machinery
