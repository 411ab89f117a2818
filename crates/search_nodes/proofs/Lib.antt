pub mod ClashLaws
pub mod PathLaws
pub mod FixingLaws
pub mod RowLaws
pub mod ChoiceLaws
pub mod PointLaws
pub mod MarkLaws
