pub mod AskerLemmas
pub mod PastLemmas
pub mod PresentLemmas
