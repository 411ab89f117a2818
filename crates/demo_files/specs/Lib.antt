pub mod Generator
pub mod Sizes
pub mod Texts
