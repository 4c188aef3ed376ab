mod Joining
mod Leaving
mod Ends
mod Changing
pub mod Histories
