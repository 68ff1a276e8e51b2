pub mod Content
pub mod Trees
pub mod Published
pub mod Encoding
pub mod Groups
pub mod Ranking
pub mod Example
pub mod Claims
