-- What the promises mean, in reading order.
pub mod Histories
pub mod Events
pub mod Orders
pub mod Selections
pub mod Edges
pub mod KeySets
pub mod Phenomena
pub mod Serial
