-- What slots hold of a content, and what a copy of it starts from.
pub mod Pieces
