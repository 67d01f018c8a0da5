pub mod Palette
pub mod Piles
pub mod Pieces
pub mod Summarized
