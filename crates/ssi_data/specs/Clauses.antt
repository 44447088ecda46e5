-- Calls: what calls of a server leave. Turns: what is done with one connection. Leaving: what becomes of the sessions of one
-- that is closed. Aborting: what becomes of the sessions that have a transaction. Rounds: how a server and the table of users go
-- on. Halts: how the service of all connections halts. Segments: which segment of a folder is the last one. Starts: what a
-- server starts with. Rotations: what becomes of one that begins the next segment. Faults: which reason a fault gives, and which
-- may pass. Timing: when sessions had their last command. Idling: what becomes
-- of those that had none for long.
pub mod Calls
pub mod Turns
pub mod Leaving
pub mod Aborting
pub mod Rounds
pub mod Halts
pub mod Segments
pub mod Starts
pub mod Rotations
pub mod Faults
pub mod Timing
pub mod Idling
