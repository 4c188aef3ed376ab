pub mod Names
pub mod Components
pub mod Steps
