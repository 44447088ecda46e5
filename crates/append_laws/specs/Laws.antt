-- What follows from the definitions.
pub mod Explanations
pub mod Links
