pub mod Recommended
pub mod Lines
pub mod InTwo
pub mod Turns
pub mod Rest
pub mod Streams
pub mod Whole
