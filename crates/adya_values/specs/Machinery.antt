-- What only the code of this crate needs: events in an arena, and what they see.
pub mod Packed
pub mod Seen
