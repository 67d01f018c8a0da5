pub mod Lawful
pub mod Walk
pub mod Words
pub mod Comment
pub mod Quoted
pub mod Region
pub mod LawsHold
pub mod SmallTexts
