pub mod QueueLemmas
pub mod FrameLemmas
pub mod FreeLemmas
pub mod OwnerLemmas
pub mod KeptLemmas
pub mod LowestLemmas
pub mod TableLemmas
