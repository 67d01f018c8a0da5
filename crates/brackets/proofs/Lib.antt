pub mod Depth
pub mod Nearest
pub mod Paired
pub mod Agreement
