pub mod NameLists
pub mod Shown
