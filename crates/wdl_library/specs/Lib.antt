pub mod Sections
pub mod Imports
pub mod Links
pub mod Names
pub mod Structs
