pub mod PickChanges
pub mod PickCases
