pub mod Over
pub mod Placed
pub mod Root
pub mod Walking
