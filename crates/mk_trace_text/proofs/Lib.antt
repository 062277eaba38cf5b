pub mod LinesMore
