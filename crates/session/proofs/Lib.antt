pub mod LineBack
pub mod Splitting
pub mod Commas
pub mod ScriptBack
