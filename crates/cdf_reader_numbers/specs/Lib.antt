pub mod Numbers
pub mod Taking
pub mod Samples
pub mod Claims
