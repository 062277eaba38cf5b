-- The words of the store's transactions, lowest first.
pub mod Stamps
pub mod Transactions
pub mod TxnFaults
pub mod Clashes
pub mod Outcomes
pub mod MarkMaps
pub mod LatestWrites
