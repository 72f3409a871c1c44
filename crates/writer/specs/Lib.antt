-- Prefix and content joined.
pub mod Bodies
