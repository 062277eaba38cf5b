pub mod Entries
pub mod Turns
pub mod Seats
