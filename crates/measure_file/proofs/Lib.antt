pub mod MarkLemmas
pub mod FeatureLemmas
pub mod MeasureLemmas
pub mod WriteLemmas
pub mod ReadBackLemmas
pub mod RoundTrip
