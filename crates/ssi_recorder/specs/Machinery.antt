-- What only the code of this crate needs: the installed versions of each key, by the place of their commit.
pub mod Lines
