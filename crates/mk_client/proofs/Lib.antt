-- Lemmas on what an attempt reads and writes.
pub mod PutLaws
pub mod ReadOrder
pub mod BufferLaws
