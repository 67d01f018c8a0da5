-- The manual, in this order.
pub mod Tree
pub mod Footprint
pub mod Sides
pub mod Cut
pub mod Spot
pub mod SizedSpot
pub mod Over
pub mod Laws
