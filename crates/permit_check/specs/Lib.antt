pub mod Modes
pub mod Permits
