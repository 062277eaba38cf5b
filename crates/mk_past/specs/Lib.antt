-- What the store held at a stamp, and why an attempt ended as it did.
pub mod Pasts
pub mod Indexes
pub mod Orders
pub mod Refusals
pub mod Reasons
pub mod Laws
