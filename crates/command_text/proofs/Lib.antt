pub mod Zeros
pub mod Returns
pub mod Indents
pub mod LineLaws
