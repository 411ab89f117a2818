pub mod BitLemmas
pub mod ListLemmas
pub mod MaskLemmas
pub mod ChosenLemmas
pub mod SumLemmas
pub mod WeighLemmas
pub mod MadeLemmas
pub mod FewLemmas
