pub mod Natural
pub mod Refusal
pub mod Said
pub mod Sign
pub mod First
pub mod Listed
pub mod Flag
