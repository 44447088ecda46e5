-- Recovery: what a recovery returns, and why it may fail. Journals: what a log has of lines. Serving: what a server stands for.
-- Counts: what is counted of a store, and of the lines that it has carried out. Holding: on which lines rests what was given out.
pub mod Recovery
pub mod Journals
pub mod Serving
pub mod Counts
pub mod Holding
