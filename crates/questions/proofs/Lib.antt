pub mod Opening
pub mod Cutting
pub mod Stripping
