-- Which lines a text has, to which course they lead, which lines a server logs, and what its lives leave: by default, and if only
-- `committed` waits for the disk (Early, EarlyLives).
pub mod Lines
pub mod Replays
pub mod Logs
pub mod Lives
pub mod Early
pub mod EarlyLives
