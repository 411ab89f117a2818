pub mod Separation
pub mod Search
pub mod Cliques
pub mod Better
