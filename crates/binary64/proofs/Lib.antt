pub mod Powers
pub mod Kept
pub mod Value
pub mod Scaled
