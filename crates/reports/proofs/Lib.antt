pub mod ValueLaws
pub mod JsonLaws
pub mod ListLaws
pub mod RoomLaws
pub mod StandingLaws
