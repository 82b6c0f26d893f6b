pub mod Handed
pub mod Opening
pub mod Places
pub mod Progress
pub mod States
