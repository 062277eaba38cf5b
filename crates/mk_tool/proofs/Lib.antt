pub mod JudgedLaws
pub mod ReadLaws
pub mod StreamLaws
pub mod PastLaws
pub mod EndLaws
pub mod FormLaws
