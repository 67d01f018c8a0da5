pub mod Measure
pub mod Blank
pub mod Pair
pub mod Bounded
pub mod Place
pub mod Unmatched
pub mod Rows
pub mod Walk
