-- What is said of a count.
pub mod Counts
