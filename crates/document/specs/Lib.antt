-- The manual, in this order.
pub mod Content
pub mod Tokens
pub mod Snapshot
pub mod Records
pub mod Log
