pub mod Placed
pub mod Stages
pub mod Keeping
pub mod Faults
