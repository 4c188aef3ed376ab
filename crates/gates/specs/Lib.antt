pub mod Gates
pub mod Causes
pub mod Same
