-- What an answer says, and what it rests on.
pub mod Answers
pub mod Rests
