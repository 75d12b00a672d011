pub mod Channel
pub mod Layout
pub mod Passage
