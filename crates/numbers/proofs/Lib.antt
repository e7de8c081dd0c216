pub mod Loops
pub mod Rows
pub mod Writes
