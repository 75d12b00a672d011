pub mod Lawful
pub mod History
pub mod Ways
pub mod Counts
pub mod Laws
pub mod Fitting
