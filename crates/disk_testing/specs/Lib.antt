-- What a crash may leave of a file that is kept in memory.
pub mod Leaving
