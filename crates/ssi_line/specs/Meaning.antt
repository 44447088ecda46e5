-- What the promises mean.
pub mod Spelling
pub mod Replies
pub mod Steps
