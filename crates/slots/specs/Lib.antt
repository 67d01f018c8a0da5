-- The manual, in this order.
pub mod Claim
pub mod View
pub mod Holds
pub mod Frame
pub mod Join
pub mod Split
pub mod Free
pub mod Replace
pub mod Sound
pub mod Prepare
pub mod Copy
pub mod Rewrite
