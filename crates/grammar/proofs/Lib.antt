mod Runs
mod Clashes
pub mod Letters
mod Places
mod Choices
mod Sections
pub mod Steps
mod Found
pub mod Total
pub mod Readings
pub mod Listed
pub mod Arguments
pub mod Marks
pub mod Numbers
