pub mod Lining
pub mod Answered
pub mod Filled
