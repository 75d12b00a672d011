pub mod TableLemmas
pub mod SeenLemmas
pub mod WaitingLemmas
pub mod KeptLemmas
pub mod SearchLemmas
pub mod PermitLemmas
pub mod HeldLemmas
