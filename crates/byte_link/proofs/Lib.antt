pub mod Splits
pub mod PieceLemmas
pub mod Rows
pub mod Steps
pub mod LawLemmas
