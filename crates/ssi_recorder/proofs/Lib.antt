pub mod Committed
pub mod Ended
pub mod Placed
pub mod Puts
pub mod Ranks
pub mod Shaped
pub mod WrittenKeys
pub mod Installed
