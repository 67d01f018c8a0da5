-- What the searches keep and how they go over a byte.
pub mod StateBefore
pub mod Meeting
pub mod Carried
pub mod InLine
pub mod Depth
pub mod PartnerAhead
pub mod PartnerBehind
pub mod ComesToPartner
pub mod AtPlace
