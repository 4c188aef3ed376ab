pub mod ScalarValues
mod Utf8
mod Laws
