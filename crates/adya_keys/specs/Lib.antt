pub mod Meaning
pub mod Machinery
pub mod Mirror
