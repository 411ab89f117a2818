pub mod Turns
pub mod Division
pub mod Products
pub mod Lowest
pub mod Settled
pub mod Commons
pub mod Halving
