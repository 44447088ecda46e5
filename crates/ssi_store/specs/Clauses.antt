-- Following: which courses there are.
-- Coverage: what the history of a course is, by a rule whose pivots never stand.
-- Finished: that of a course that is over.
pub mod Following
pub mod Coverage
pub mod Finished
