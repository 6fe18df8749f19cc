pub mod LineStep
pub mod Texts
pub mod Answered
pub mod Ready
pub mod Stream
