pub mod Written
pub mod Calling
pub mod Proved
