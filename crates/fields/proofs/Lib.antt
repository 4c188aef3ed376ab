pub mod Cuts
pub mod Cased
