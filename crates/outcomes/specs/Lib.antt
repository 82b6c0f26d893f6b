pub mod Runs
pub mod Lines
pub mod Verdicts
pub mod Laws
pub mod Worked
