-- Marks: which ranges a transaction has read.
pub mod Marks
