pub mod LittleEndian
pub mod Fours
