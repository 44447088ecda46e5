-- What only code needs: texts in arrays of fixed size, numbers of their first bytes, numbers of 32 bits while they fit, packed lists
-- and lines, and tables of keys with their buckets and hashes.
pub mod Buckets
pub mod Ends
pub mod Indices
pub mod KeyHash
pub mod KeyTables
pub mod Lines
pub mod Padded
pub mod Parts
pub mod Within
pub mod Words
