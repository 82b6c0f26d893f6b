pub mod Following
pub mod Judging
pub mod Stepping
pub mod Telling
