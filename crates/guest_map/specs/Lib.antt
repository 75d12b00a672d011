pub mod Guests
pub mod GuestLaws
pub mod Index
