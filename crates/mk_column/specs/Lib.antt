-- A column's state and its twelve steps, lowest first.
pub mod ColumnState
pub mod Readings
pub mod Conditions
pub mod HeldByCode
pub mod AttemptsByCode
pub mod TakeoversByCode
pub mod ClientsByCode
pub mod ColumnByCode
pub mod StepsByCode
pub mod Growing
