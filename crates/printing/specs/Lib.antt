pub mod Passes
pub mod Tallies
pub mod Printing
pub mod Stages
