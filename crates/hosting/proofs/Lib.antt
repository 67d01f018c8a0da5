pub mod Replying
pub mod Conversing
pub mod Naming
pub mod RangeTold
