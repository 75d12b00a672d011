pub mod Destinations
pub mod Spelling
pub mod Ranges
pub mod Place
pub mod Calls
