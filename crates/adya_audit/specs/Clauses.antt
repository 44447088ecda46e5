-- The verdict on two texts, and on one stream that holds both; what a call reads and prints.
pub mod TextVerdicts
pub mod Inputs
pub mod Answers
pub mod Output
