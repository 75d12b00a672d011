pub mod PairLemmas
