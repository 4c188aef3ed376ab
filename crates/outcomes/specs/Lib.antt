pub mod Printed
pub mod Demand
pub mod PartTexts
