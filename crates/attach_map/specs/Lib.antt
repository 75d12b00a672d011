pub mod Attaching
pub mod Seats
pub mod Numbers
pub mod Permits
