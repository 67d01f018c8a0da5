-- The manual, in this order.
pub mod Automaton
pub mod Class
pub mod Walk
pub mod Bracket
pub mod Words
pub mod Layer
pub mod Comment
pub mod Quoted
pub mod Region
pub mod Laws
pub mod Examples
