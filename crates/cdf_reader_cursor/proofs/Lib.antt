pub mod Again
pub mod Entered
pub mod Starting
pub mod Passed
