pub mod IndexLaws
pub mod TableLaws
pub mod LineLaws
pub mod ListedLaws
pub mod FirstLaws
pub mod ReasonLaws
