pub mod Filters
pub mod Layout
pub mod Routes
