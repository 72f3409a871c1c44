-- What the parts of a text are, and the sum of its bytes.
pub mod Values
pub mod Words
