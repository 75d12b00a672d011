pub mod Examples
pub mod Records
