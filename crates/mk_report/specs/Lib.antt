pub mod ReportTexts
pub mod Seen
pub mod StoreTexts
pub mod WholeReports
pub mod JsonValues
pub mod WholeJson
pub mod Commits
pub mod RunReports
