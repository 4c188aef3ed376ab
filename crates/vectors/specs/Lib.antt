pub mod Right
pub mod Left
