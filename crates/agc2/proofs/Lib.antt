pub mod Flags
pub mod Handed
pub mod Interleaved
