pub mod Called
pub mod TaskNames
pub mod Bodies
pub mod StructSections
pub mod Bundled
