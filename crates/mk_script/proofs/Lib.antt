pub mod Shapes
mod Rows
pub mod Passed
pub mod LineLaws
pub mod Again
pub mod KeyLaws
pub mod TxnLaws
pub mod WholeLaws
pub mod ParseLaws
pub mod PrintedLaws
pub mod KeepLaws
pub mod Printable
pub mod RoundTrip
mod QuietRows
