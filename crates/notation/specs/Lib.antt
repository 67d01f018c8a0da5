-- How words, numbers and bytes are written in a line.
pub mod Words
pub mod Number
pub mod Digits
pub mod Bytes
pub mod Quoted
pub mod Laws
