mod Reached
mod Laying
pub mod Counts
mod Behind
pub mod Fitting
pub mod Shown
pub mod Next
mod Outcomes
pub mod Staged
mod Formats
