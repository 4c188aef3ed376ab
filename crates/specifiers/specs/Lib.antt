pub mod Flags
pub mod Steps
pub mod Params
pub mod Specifier
