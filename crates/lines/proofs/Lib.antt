-- Cuts of a text at a separator.
pub mod Cuts
