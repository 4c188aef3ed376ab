pub mod Entry
pub mod Widths
pub mod Row
pub mod Arguments
