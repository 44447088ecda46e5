-- Reading: what a line is read as.
-- Counting: which steps count.
-- Answers: what one line is answered.
-- Dumps: the text of a dump.
-- Ends: what a run over an input has done when it ends.
pub mod Reading
pub mod Counting
pub mod Answers
pub mod Dumps
pub mod Ends
