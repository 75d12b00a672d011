pub mod Spaces
pub mod Held
pub mod Hints
