-- What follows from the definitions.
-- Changes: collections drop nothing that is still asked for. Counts: how many versions are held, and of how many keys.
pub mod Changes
pub mod Counts
