pub mod FieldLemmas
pub mod FaultLemmas
pub mod SpellingLemmas
pub mod StreamLemmas
pub mod DecodingLemmas
pub mod KeptLemmas
pub mod LawLemmas
