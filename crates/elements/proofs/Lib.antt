pub mod PieceTexts
mod Characters
mod Shown
