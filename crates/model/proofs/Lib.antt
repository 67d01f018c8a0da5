pub mod Runs
pub mod Editing
pub mod Ending
pub mod Painting
pub mod Refusing
pub mod Turns
pub mod Buffers
pub mod Scripts
