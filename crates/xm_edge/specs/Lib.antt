pub mod Adapters
pub mod Ends
pub mod Faults
pub mod Memory
pub mod Whole
