-- Where a part of the table lies, and what is told of a record.
pub mod Places
pub mod Found
