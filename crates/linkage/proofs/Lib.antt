pub mod Examples
pub mod Output
pub mod Pieces
