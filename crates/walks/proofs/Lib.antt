-- Laws of the walks: one for each turn and each way out.
pub mod FreeLaws
pub mod WalkLaws
pub mod ChainWalks
