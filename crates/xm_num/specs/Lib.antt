pub mod Causes
pub mod RowLaws
pub mod Rows
pub mod Sizes
