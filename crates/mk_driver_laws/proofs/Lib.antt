pub mod Lookups
pub mod Conditions
pub mod ColumnMoves
pub mod StepParts
pub mod Replies
pub mod ColumnSteps
pub mod Taking
pub mod Frames
pub mod Reading
pub mod Requests
pub mod ItemLaws
pub mod ReadKeys
pub mod Asked
pub mod DriverFits
pub mod Remaining
pub mod NextPlaces
pub mod Places
pub mod Sure
pub mod Walk
pub mod Named
pub mod Fetching
pub mod Beginnings
pub mod ClientTurns
pub mod PlaceTurns
pub mod PlaceChoices
pub mod Choices
pub mod Standing
pub mod PlaceStandings
mod GoingOn
mod NamedCalls
mod KeyCalls
mod Bounds
