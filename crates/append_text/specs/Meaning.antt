-- What the promises mean.
pub mod Names
pub mod Steps
pub mod Pairing
pub mod Data
pub mod Operations
pub mod Numbers
pub mod Json
pub mod Texts
pub mod Notations
pub mod Lines
pub mod JsonTexts
