pub mod Conversion
pub mod Promises
