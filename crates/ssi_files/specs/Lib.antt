-- What the calls on files and on their folder were.
pub mod Meaning
pub mod Machinery
