pub mod Names
pub mod Standing
pub mod Taken
pub mod Pointing
pub mod Bounded
pub mod Fronts
pub mod Proved
