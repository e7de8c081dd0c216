pub mod Accepted
pub mod Records
pub mod Reach
pub mod Loading
