-- What only this crate's tables and loops need. A reading order:
-- Rows: what is kept of a transaction, and when it stands for the calls.
-- Slots: which transaction has which place.
-- Records: the rows of records.
-- Index: who wrote each key, and what a read meets.
-- Tables: all of them together.
pub mod Rows
pub mod Slots
pub mod Records
pub mod Index
pub mod Tables
