-- What a script and a socket leave, and which exit status that gives.
pub mod Scripts
pub mod Status
pub mod Fault
pub mod Peers
pub mod Turns
pub mod Parting
pub mod Leaving
pub mod Serving
pub mod Connections
