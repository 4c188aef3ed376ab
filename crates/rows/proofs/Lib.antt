pub mod Widths
pub mod Rows
pub mod Arguments
