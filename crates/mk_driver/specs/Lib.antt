-- The driver's turns, lowest first.
pub mod Parts
pub mod Agenda
pub mod Delivery
pub mod Stages
pub mod Settling
pub mod Passes
pub mod Turns
pub mod Passing
pub mod Keeping
pub mod Driven
pub mod Drivers
pub mod Standings
pub mod RisingNumbers
