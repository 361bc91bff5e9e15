pub mod Command
pub mod Laws
pub mod Runtime
pub mod Sections
pub mod Tasks
