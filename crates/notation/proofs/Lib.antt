pub mod Numbers
pub mod ReadBack
pub mod Cuts
