-- What values of the code stand for.
-- Commands: commands and answers. Rosters: open transactions with their snapshots. Pasts: what is kept of the past.
-- Standing: when the engine of a store stands for a course. Stores and LiveStores: when a store does. Finished: what is
-- seen of a finished store.
pub mod Commands
pub mod Rosters
pub mod Pasts
pub mod Standing
pub mod Stores
pub mod LiveStores
pub mod Finished
