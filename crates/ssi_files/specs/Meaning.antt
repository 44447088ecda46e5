-- The calls that a record has, what an open file and a folder show by them, the names of files, and what is
-- supposed of the system.
pub mod Calls
pub mod Faults
pub mod Files
pub mod FolderCalls
pub mod Names
pub mod Premises
