pub mod HolderLemmas
pub mod IndexLemmas
pub mod NameLemmas
pub mod RowLemmas
pub mod Tables
