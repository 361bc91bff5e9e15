-- Reads the sections of a document.
pub mod Lists
pub mod Sections
pub mod Calls
pub mod Blocks
pub mod Tasks
pub mod Documents
