pub mod Libraries
pub mod LinksTo
pub mod Numbers
pub mod Checks
