pub mod Runs
pub mod Parts
pub mod Elements
pub mod Faults
pub mod Pieces
pub mod Readings
pub mod Numbers
