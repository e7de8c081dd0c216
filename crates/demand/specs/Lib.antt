pub mod Demand
pub mod Breaks
pub mod Sample
