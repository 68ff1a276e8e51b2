pub mod BySkipped
