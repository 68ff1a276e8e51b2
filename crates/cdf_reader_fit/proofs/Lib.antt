pub mod Chains
pub mod Lows
pub mod Parted
