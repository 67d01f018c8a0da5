-- The manual, in this order.
pub mod Position
pub mod Utf16
pub mod Laws
