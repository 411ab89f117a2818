pub mod Pattern
pub mod Made
