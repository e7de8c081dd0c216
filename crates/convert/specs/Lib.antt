pub mod Convert
pub mod Converts
pub mod Examples
pub mod Parts
