pub mod Scenario
pub mod Laws
pub mod Run
pub mod Status
pub mod Main
