pub mod Lists
pub mod IndexLemmas
pub mod Hops
pub mod ByteLemmas
pub mod DeliveryLemmas
pub mod BearLemmas
pub mod ShowLemmas
