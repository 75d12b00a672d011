pub mod ReaderLemmas
pub mod SlotLemmas
pub mod FormLemmas
pub mod CommandLemmas
pub mod WordsOf
pub mod Placed
