pub mod Looks
pub mod Staged
pub mod Asking
pub mod Driven
pub mod Alike
pub mod Other
pub mod Proved
