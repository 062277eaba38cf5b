pub mod EntryLaws
pub mod TotalLaws
pub mod StepLaws
pub mod TurnLaws
pub mod SeatLaws
