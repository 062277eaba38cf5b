pub mod Cuts
pub mod Numbers
pub mod FieldLaws
pub mod PlaceLaws
pub mod Joins
pub mod Names
pub mod TextLaws
pub mod PieceLaws
