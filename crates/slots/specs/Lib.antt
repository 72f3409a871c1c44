-- The key that is checked.
pub mod Keys
