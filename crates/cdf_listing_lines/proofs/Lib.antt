pub mod Putting
pub mod Rooms
