-- The definitions that the contracts of `command_line` cite.
pub mod Argument
pub mod Ending
pub mod Free
pub mod Input
