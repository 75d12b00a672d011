pub mod Words
pub mod Digits
pub mod Solid
pub mod Laws
