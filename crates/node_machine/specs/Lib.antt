pub mod Links
pub mod Machine
pub mod Index
pub mod Ready
pub mod Laws
