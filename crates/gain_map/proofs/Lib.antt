pub mod GainTable
pub mod Differences
pub mod Paths
pub mod Walks
