pub mod Texts
pub mod Indexes
pub mod Pieces
pub mod Listed
pub mod Check
pub mod Covers
