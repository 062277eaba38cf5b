pub mod Reports
pub mod Orders
pub mod Taking
pub mod Composed
pub mod Members
pub mod Counting
pub mod Fitting
pub mod Adding
pub mod Lefts
pub mod BaseWith
pub mod Bare
mod GreatestMarks
pub mod MergeCases
