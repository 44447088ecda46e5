-- What a collection keeps, told from the front.
pub mod Kept
