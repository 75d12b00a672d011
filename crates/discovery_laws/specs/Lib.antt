pub mod Known
pub mod Once
pub mod Laws
pub mod Ways
