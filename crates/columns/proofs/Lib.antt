mod Forms
pub mod Letters
mod Frames
mod Integers
mod Floats
pub mod Columns
