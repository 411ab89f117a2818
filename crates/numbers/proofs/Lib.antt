pub mod CountLaws
pub mod TotalLaws
