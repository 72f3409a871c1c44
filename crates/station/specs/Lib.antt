-- What the exported functions answer.
pub mod Forms
