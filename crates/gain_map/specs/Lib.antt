pub mod GainMap
pub mod Differences
pub mod VolumeUpdate
