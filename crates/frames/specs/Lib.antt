pub mod Around
pub mod Frame
pub mod Bare
pub mod Signs
