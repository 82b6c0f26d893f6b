pub mod Meaning
pub mod Answers
pub mod Changing
pub mod Makings
pub mod Working
