-- What a host makes of the words it is given and of the lines of a session.
pub mod Piles
pub mod Lent
pub mod Replies
pub mod Laws
pub mod Conversing
pub mod Hosted
