pub mod Reach
pub mod RightAngle
