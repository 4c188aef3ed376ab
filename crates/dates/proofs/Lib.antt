pub mod Symbols
pub mod Patterns
