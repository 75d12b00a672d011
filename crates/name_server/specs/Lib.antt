pub mod Draws
pub mod Index
pub mod Names
