pub mod NameLaws
pub mod ShapeLaws
pub mod RoundPush
pub mod ReadyLaws
pub mod WordLaws
pub mod LineLaws
pub mod RunLaws
