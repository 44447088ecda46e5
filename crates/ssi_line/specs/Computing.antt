-- What a line says, word by word.
pub mod Reading
