pub mod ListLemmas
pub mod TableLemmas
pub mod PageLemmas
pub mod RunLaws
pub mod MarkLemmas
