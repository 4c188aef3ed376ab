mod Runs
pub mod Numbers
pub mod Bytes
pub mod Places
mod AtLetter
