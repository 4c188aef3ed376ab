pub mod Dates
pub mod Moments
pub mod Steps
