pub mod Unique
pub mod Joined
pub mod Texts
pub mod Accepted
pub mod Letters
pub mod Demand
pub mod PartTexts
