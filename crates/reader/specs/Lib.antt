-- What a look at a table finds.
pub mod Opened
