pub mod Telling
pub mod Ordered
pub mod Searching
pub mod Streams
pub mod Choosing
pub mod Deciding
pub mod Proved
