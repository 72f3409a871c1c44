-- Laws of the copy of a chain: one for each turn, and how it starts.
pub mod CopyLaws
pub mod StartCopies
