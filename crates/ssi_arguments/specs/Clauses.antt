-- What a program's arguments ask for, and how the parser reads them.
pub mod Arguments
pub mod CommandLine
pub mod Storage
