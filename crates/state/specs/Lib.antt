pub mod State
pub mod Parts
