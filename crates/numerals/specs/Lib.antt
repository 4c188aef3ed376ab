pub mod Grouping
pub mod Integers
pub mod Digits
pub mod Bases
