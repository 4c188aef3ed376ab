pub mod Scalars
pub mod Utf8
