pub mod ChainLemmas
pub mod LineLemmas
pub mod MemoryLemmas
pub mod ReadLemmas
pub mod RowLemmas
pub mod WriteLemmas
