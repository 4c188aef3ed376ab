pub mod Lists
pub mod Steps
pub mod Promises
pub mod Histories
