-- Laws of the checks.
pub mod CheckLaws
pub mod ValueLaws
pub mod RoomLaws
