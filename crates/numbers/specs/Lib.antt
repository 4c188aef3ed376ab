pub mod Numbers
pub mod Numerals
