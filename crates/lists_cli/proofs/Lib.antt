pub mod Right
pub mod Blamed
pub mod Counted
