-- What a hub was called with, and what that makes of the lines and the replies of its connections.
pub mod Clipping
pub mod Buffers
pub mod Runs
pub mod Outcomes
pub mod Stepping
pub mod Calls
pub mod Serving
