pub mod Patching
pub mod Fronts
pub mod Lent
