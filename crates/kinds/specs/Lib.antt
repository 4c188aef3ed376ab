pub mod Letters
pub mod Kinds
