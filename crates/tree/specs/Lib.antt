-- What the calls of a chunk tree say.
pub mod Public
pub mod Refused
