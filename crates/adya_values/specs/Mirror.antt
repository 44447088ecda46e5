-- What values of the code stand for.
pub mod Refs
pub mod Events
pub mod Lines
pub mod Numbers
pub mod Histories
