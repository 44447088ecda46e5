-- Plain functions that compute what the promises mean.
pub mod Runs
pub mod HistoryRuns
pub mod SerialRuns
pub mod Streams
