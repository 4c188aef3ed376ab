pub mod Fields
pub mod Rounding
pub mod HexFloat
