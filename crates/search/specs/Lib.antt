-- The manual, in this order.
pub mod Forwards
pub mod Backwards
pub mod Places
