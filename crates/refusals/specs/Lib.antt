pub mod Limits
pub mod Numbers
