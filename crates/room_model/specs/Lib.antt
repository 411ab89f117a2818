pub mod Names
pub mod ProblemOf
pub mod Long
pub mod Existence
pub mod Calendar
pub mod Taken
pub mod Features
