pub mod View
pub mod Held
pub mod Words
pub mod Claims
