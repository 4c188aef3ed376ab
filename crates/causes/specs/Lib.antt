pub mod Calls
pub mod Causes
