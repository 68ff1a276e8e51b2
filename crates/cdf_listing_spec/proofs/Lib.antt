pub mod Digits
pub mod Within
pub mod Short
pub mod Lines
pub mod Proved
