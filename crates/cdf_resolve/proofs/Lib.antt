pub mod Finding
pub mod Keeping
pub mod Walking
pub mod Answering
