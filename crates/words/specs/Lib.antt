pub mod Words
pub mod Refusals
pub mod Texts
pub mod Files
