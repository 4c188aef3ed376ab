pub mod Kept
pub mod Reading
pub mod Nearness
pub mod Examples
