-- What readers are shown of a run.
pub mod Marks
pub mod Gathering
pub mod FollowTexts
pub mod Laws
