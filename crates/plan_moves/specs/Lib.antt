pub mod Sheets
pub mod Laws
pub mod Telling
