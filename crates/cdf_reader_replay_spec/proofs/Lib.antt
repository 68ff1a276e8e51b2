pub mod Holding
pub mod Replaying
pub mod Hearing
pub mod Proved
