-- What is promised of a server and its connections.
pub mod Clauses
pub mod Mirror
