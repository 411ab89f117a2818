pub mod Inputs
pub mod Expected
