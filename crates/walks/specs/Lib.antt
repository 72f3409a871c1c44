-- What a walk's answer says.
pub mod Met
