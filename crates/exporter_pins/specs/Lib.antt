pub mod Holdings
pub mod Layout
