pub mod Cells
pub mod Legal
pub mod One
pub mod Flights
pub mod Roads
pub mod Onward
pub mod Places
pub mod Laws
