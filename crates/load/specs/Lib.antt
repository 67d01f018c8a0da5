-- What is said of a text that is loaded into a tree, and of the memory that is made for one.
pub mod Loading
pub mod Room
