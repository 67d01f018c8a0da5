pub mod Apart
pub mod Short
pub mod Pieces
pub mod Planning
pub mod Applying
pub mod Showing
pub mod LinesBetween
