pub mod Lines
pub mod Answers
pub mod Writers
