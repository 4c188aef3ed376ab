pub mod Commas
pub mod TwosComplement
pub mod Digits
pub mod Bases
