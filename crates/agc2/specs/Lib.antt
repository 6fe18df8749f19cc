-- The definitions that the contracts of `agc2` cite.
pub mod Settings
pub mod Answers
pub mod Whole
pub mod Given
pub mod Calls
pub mod Layout
pub mod Samples
pub mod Version
