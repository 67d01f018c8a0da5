-- What the program writes for a text and its colours.
pub mod Piles
pub mod Rendered
pub mod Summary
