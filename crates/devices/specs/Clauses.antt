-- What was written to a device, the lines of an input, and how often it was read.
pub mod Writing
pub mod Lines
pub mod Reading
