mod SumLemmas
mod LineLemmas
mod TableLemmas
mod PackedLemmas
mod TextLemmas
pub mod RunLaws
