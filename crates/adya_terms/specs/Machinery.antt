-- What only the loops and the tables of the check need.
pub mod Tables
pub mod Chains
pub mod OwnWrites
pub mod Telling
pub mod Owed
pub mod NewestWrites
pub mod Scans
pub mod EventIndex
pub mod Checks
pub mod Reads
pub mod LinePlaces
pub mod LineWriters
pub mod Places
