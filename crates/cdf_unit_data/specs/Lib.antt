pub mod Data
pub mod Claims
pub mod Standing
