-- Plain functions that compute a verdict.
pub mod Verdicts
