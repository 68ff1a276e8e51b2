pub mod View
pub mod Uses
pub mod Cursors
pub mod Words
pub mod Claims
