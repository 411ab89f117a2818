pub mod PlacedLemmas
pub mod TimesLemmas
pub mod BackLemmas
