-- What only the loops need.
pub mod Buffers
pub mod Pairings
pub mod Readings
pub mod Collectors
pub mod EdnMaps
pub mod EdnFaults
pub mod Telling
pub mod BufferTexts
pub mod JsonReading
