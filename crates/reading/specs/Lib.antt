pub mod Senses
pub mod Turns
pub mod Rules
pub mod Faults
pub mod Trees
pub mod Laws
pub mod Parts
