-- Grammars: which lines the texts have.
-- Faults: the first line that no text goes on from.
-- Streams: both texts in one.
-- Reading: what a reader took.
pub mod Grammars
pub mod Faults
pub mod Streams
pub mod Reading
