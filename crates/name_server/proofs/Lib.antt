pub mod DrawLemmas
pub mod IndexLemmas
pub mod PairLemmas
