pub mod Computed
pub mod Staged
pub mod Judging
pub mod Walking
pub mod Proved
