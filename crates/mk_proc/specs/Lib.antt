-- Items, and the values of procedures.
pub mod Items
pub mod Procedures
