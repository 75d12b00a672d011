pub mod FindLemmas
pub mod GuestLemmas
pub mod KeptLemmas
pub mod LastLemmas
