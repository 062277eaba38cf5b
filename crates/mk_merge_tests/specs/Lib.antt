-- Transactions and promises of worked rows.
pub mod Rows
