pub mod Makings
pub mod Turning
pub mod OwnLines
pub mod Aborts
pub mod Rounds
pub mod Rotating
pub mod LastSegment
pub mod Idling
