pub mod Stages
pub mod Few
