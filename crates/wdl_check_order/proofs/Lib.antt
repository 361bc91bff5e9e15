pub mod NameLaws
pub mod OrderLaws
