pub mod Passing
pub mod Keeping
pub mod Proved
pub mod Walking
