pub mod Places
pub mod NameLaws
