pub mod Body
pub mod Joint
pub mod Tick
pub mod Run
pub mod Dominance
pub mod Parts
pub mod Work
pub mod Examples
