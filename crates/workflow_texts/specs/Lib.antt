pub mod Translating
pub mod Bundling
pub mod Forming
