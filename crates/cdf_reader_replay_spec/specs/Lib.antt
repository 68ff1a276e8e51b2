pub mod Replay
pub mod Holding
pub mod Claims
