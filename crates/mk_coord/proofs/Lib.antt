pub mod CoordChanges
pub mod RulingCases
