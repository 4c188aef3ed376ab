mod Kept
mod Digits
pub mod Integers
pub mod Floats
pub mod Multiples
mod Exact
mod Forms
pub mod Nearest
pub mod Denotes
pub mod Pieces
pub mod Examples
