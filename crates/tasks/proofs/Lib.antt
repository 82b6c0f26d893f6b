pub mod Inside
pub mod Opened
pub mod Walking
