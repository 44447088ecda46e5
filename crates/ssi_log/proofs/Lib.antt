pub mod Filling
pub mod Texts
pub mod Standings
pub mod Settled
pub mod PiecesRead
