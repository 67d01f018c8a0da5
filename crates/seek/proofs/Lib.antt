pub mod Found
pub mod Parting
pub mod Descent
pub mod Ascent
