pub mod ArgumentLaws
pub mod FormLaws
pub mod MatchingLaws
pub mod ValueLaws
