pub mod Tables
pub mod RowLemmas
pub mod RunLemmas
