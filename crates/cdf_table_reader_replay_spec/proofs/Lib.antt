pub mod Turning
pub mod Proved
