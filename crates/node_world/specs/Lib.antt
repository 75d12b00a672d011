pub mod Appended
pub mod Links
pub mod Shown
pub mod World
pub mod Laws
