pub mod Faults
pub mod Verdicts
pub mod Trees
pub mod Progresses
pub mod Feeding
pub mod Files
