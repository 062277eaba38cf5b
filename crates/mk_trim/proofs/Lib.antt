pub mod InOrder
pub mod OneMoreSettled
