-- How a file is filled with zeros, and written over them.
pub mod Zeros
pub mod Standing
pub mod Pieces
