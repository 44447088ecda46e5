-- The first fault of a history, as a relation.
pub mod FirstFaults
