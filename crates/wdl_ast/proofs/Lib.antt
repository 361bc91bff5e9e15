pub mod WordLaws
pub mod StatementLaws
pub mod Framed
