pub mod Asking
pub mod Nexts
