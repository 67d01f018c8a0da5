-- The manual, in this order.
pub mod Refusal
pub mod Edit
pub mod End
pub mod Paint
pub mod Model
pub mod Calls
pub mod SomeWalk
pub mod Script
pub mod Reasons
pub mod Laws
