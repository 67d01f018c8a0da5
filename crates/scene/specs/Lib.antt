-- What is stated of the program's help.
pub mod Help
