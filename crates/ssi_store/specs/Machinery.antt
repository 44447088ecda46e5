-- What only the code of the store needs.
-- Below: the laws of the parts, in one record.
-- Opens: the open transactions of the sessions, and when one is that of a log.
-- Ends: commands that abort a transaction.
-- Rosters: the numbers of open transactions.
-- RosterRoom: the room of a roster.
-- Overtaken: the keys by which a commit is refused.
-- Looks: what a get and both kinds of scans share.
-- HeldRows: held versions as entries.
pub mod Below
pub mod Opens
pub mod Ends
pub mod Rosters
pub mod RosterRoom
pub mod Overtaken
pub mod Looks
pub mod HeldRows
