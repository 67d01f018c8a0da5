pub mod Leads
pub mod Under
pub mod Parted
pub mod Spans
pub mod Stripped
