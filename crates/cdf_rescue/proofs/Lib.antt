pub mod Units
pub mod Spans
pub mod Runs
pub mod Scanning
pub mod Copying
pub mod Heading
pub mod Answering
