pub mod Rendering
pub mod Standing
pub mod Truths
pub mod Turns
pub mod Walked
pub mod Walks
