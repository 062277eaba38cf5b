pub mod LaneLaws
pub mod Beginning
