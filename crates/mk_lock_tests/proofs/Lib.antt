pub mod SeatUse
