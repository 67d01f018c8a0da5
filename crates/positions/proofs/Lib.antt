pub mod Lines
pub mod Spots
pub mod Characters
