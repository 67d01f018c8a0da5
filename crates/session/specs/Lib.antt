-- What a line asks of a session with the text server, and what is written as its answer.
pub mod Names
pub mod Records
pub mod Asked
pub mod Reads
pub mod Request
pub mod Answered
pub mod Laws
