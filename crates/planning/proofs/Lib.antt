pub mod Bits
pub mod Stepping
pub mod Regressing
pub mod Counting
pub mod Leading
pub mod Wording
pub mod Masking
pub mod Agreeing
