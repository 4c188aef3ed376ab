pub mod LineTexts
mod Parts
mod Printed
