-- Laws of the exported calls.
pub mod CallLaws
