pub mod Times
pub mod Placed
pub mod Writing
pub mod Samples
