pub mod Paths
pub mod Points
pub mod Leaves
pub mod Choices
pub mod SharedRows
pub mod Marks
