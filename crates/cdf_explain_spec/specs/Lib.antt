pub mod Why
pub mod Samples
pub mod Claims
