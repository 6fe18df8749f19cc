pub mod Statistics
pub mod Clipped
pub mod Level
pub mod Running
pub mod Ring
pub mod Pushing
pub mod Making
pub mod Metrics
