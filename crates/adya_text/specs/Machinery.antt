-- What only this crate's loops and tables need.
pub mod LineFaults
pub mod LongLines
pub mod LineReaders
pub mod HistoryDrafts
pub mod SerialDrafts
pub mod TextParts
