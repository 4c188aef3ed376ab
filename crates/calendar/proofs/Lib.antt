pub mod Counting
mod Years
pub mod Only
mod Estimate
mod Finite
pub mod Epoch
