pub mod Choose
pub mod Text
pub mod Laid
pub mod Writers
