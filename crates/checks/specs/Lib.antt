-- What each stage of checks says.
pub mod Stages
