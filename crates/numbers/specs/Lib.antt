pub mod Algebra
pub mod Coprime
pub mod Below
pub mod Sums
pub mod Counts
