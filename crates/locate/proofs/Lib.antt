pub mod Walking
pub mod Together
pub mod Columns
pub mod Passages
pub mod Nesting
pub mod Partners
pub mod Spots
pub mod Counting
