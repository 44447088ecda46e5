-- What only the loops of this crate need.
pub mod Drafts
pub mod Lines
pub mod Answering
