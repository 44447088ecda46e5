-- What only this crate's loops and tables need.
pub mod Along
pub mod Arcs
pub mod Choices
pub mod LineChanges
pub mod Links
pub mod Nodes
pub mod PartEdges
pub mod Places
pub mod VersionOrders
