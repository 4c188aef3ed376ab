pub mod Around
pub mod Lengths
pub mod Padded
