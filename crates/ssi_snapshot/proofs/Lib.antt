mod Writing
mod Storing
mod Merging
mod Cutting
mod Unique
mod ByKeys
mod Limiting
mod Reaching
