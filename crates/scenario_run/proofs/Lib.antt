pub mod WriteLemmas
pub mod HistoryLemmas
pub mod StepLemmas
pub mod RunLemmas
pub mod MainLemmas
