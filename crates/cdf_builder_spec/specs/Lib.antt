pub mod Place
pub mod Slots
pub mod Requests
pub mod Calls
pub mod Orders
pub mod NearMisses
pub mod Claims
pub mod Told
