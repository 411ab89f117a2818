pub mod Faults
pub mod Grammar
pub mod Marks
pub mod Steps
pub mod Promised
pub mod Writing
pub mod Samples
