pub mod Answers
pub mod Found
pub mod Rows
pub mod Starting
pub mod Few
