pub mod Listing
pub mod Locating
pub mod Reasoning
pub mod Wording
