-- What clauses see of a journal, of the replies that wait, and of a server.
pub mod Journals
pub mod Servers
pub mod Holds
