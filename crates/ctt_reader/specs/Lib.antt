pub mod Names
pub mod Entries
pub mod Grammar
pub mod Steps
pub mod Promised
pub mod Naming
pub mod Writing
pub mod Samples
