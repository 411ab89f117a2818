pub mod Lines
pub mod Rooms
pub mod Report
pub mod Json
pub mod Groups
pub mod Standing
