pub mod LeftsLaws
pub mod SnapLaws
