pub mod Forwards
pub mod Backwards
pub mod Places
