-- What a folder keeps of its calls.
pub mod Folders
