-- Laws of the calls: one for each way out.
pub mod Outcomes
pub mod WriteLaws
pub mod ReadLaws
pub mod CountLaws
