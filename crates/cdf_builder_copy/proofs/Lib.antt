pub mod Lent
pub mod Onto
pub mod Copying
