pub mod Layers
pub mod Texts
pub mod Reasons
pub mod Formulas
pub mod Locations
