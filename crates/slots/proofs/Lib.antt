-- Laws of the settings, the header and the keys: one for each way out of a function.
pub mod HeaderLaws
pub mod KeyLaws
