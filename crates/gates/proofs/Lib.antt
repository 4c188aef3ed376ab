pub mod Causes
pub mod Same
pub mod Places
pub mod Present
