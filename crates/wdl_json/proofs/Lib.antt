pub mod Texts
pub mod Bytes
pub mod NameSets
pub mod Firsts
pub mod InputsFit
