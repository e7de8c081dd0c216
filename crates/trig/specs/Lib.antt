pub mod Interpolation
pub mod Sine
pub mod Arctangent
pub mod Parts
pub mod Accuracy
