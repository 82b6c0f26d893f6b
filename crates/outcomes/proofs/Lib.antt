pub mod Clashes
pub mod Examples
pub mod Stepping
pub mod Deciding
pub mod Fitting
pub mod Accepting
