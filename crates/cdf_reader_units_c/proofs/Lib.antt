pub mod Leaving
pub mod Reading
pub mod Proved
