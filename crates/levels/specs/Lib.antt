pub mod FloatParts
pub mod Rounding
pub mod Decibels
pub mod Order
pub mod Level
pub mod Within
