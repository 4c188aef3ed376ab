mod Elements
mod Frames
mod Floats
mod Dates
mod Texts
pub mod Bounds
