-- Which lines load the contents of a store, what a store is after them, and why it isn't known whether a segment has them.
pub mod Loads
pub mod Loaded
pub mod Following
