pub mod Linkage
pub mod Linked
pub mod Parts
pub mod Reach
