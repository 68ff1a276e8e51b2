pub mod Ids
pub mod States
pub mod Heights
pub mod Tables
pub mod Entries
pub mod Claims
