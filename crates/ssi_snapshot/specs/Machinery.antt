-- What only the code of this crate needs: writes and entries in maps from keys.
pub mod Stored
