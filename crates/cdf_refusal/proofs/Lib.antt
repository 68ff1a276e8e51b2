pub mod Apart
pub mod Proved
