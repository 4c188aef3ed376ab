pub mod PieceTexts
pub mod Ready
pub mod Texts
pub mod Sizes
