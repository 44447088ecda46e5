-- Writes: what a transaction has written. Listings: what a scan lists, limited or not.
pub mod Writes
pub mod Listings
