pub mod Joining
pub mod Encoding
