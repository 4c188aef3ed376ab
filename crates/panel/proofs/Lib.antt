mod Ends
mod Slots
pub mod Answers
