pub mod PendingLaws
pub mod SettlingLaws
pub mod StampOrdering
pub mod StampTables
pub mod CellLaws
pub mod JournalLaws
pub mod Exclusion
mod CellRows
mod ValidationRows
mod RulingRows
mod PickRows
mod KeptRows
pub mod KnownLaws
mod MergeRows
pub mod EntryLaws
