pub mod HubRuns
pub mod InTurn
pub mod UsersRoom
