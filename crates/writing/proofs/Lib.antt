pub mod Laid
pub mod Chained
pub mod FromRight
pub mod Backwards
pub mod Choose
pub mod Bytes
