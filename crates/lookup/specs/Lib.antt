-- The manual, in this order.
pub mod Partner
