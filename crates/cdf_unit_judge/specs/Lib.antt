pub mod Judge
pub mod Answers
pub mod Keeping
pub mod Short
