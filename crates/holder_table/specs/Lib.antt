pub mod HolderLaws
pub mod Holding
pub mod Index
