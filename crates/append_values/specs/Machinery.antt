-- What single functions promise each other.
pub mod Appended
