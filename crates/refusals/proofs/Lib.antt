pub mod Parsed
pub mod Numbers
