-- The lines of a history and of a certificate, and what each of them gives.
pub mod OnlyLines
pub mod HistoryLines
pub mod SerialLines
