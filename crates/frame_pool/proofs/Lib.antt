pub mod FreeLemmas
pub mod LentLemmas
