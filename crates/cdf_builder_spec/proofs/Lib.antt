pub mod Fitting
pub mod Nested
pub mod Joining
pub mod Lengths
pub mod Replying
pub mod Keeping
pub mod Orders
pub mod Proved
