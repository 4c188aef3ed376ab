pub mod Comparing
pub mod Stated
pub mod Records
pub mod Places
pub mod Verdicts
