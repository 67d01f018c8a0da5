-- The manual, in this order.
pub mod Partner
pub mod Laws
