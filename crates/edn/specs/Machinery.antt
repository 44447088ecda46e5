-- What only the loops need.
pub mod Inputs
pub mod Tapes
pub mod TapeForms
pub mod Frames
