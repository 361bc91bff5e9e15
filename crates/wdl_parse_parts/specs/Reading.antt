-- Reads the parts of sections.
pub mod Parts
pub mod Metadata
pub mod Declarations
pub mod Heads
