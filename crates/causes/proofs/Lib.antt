mod Unprinted
mod Stops
mod Inputs
mod Refused
pub mod Causes
pub mod Rows
