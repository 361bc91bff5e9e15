pub mod OutcomeLaws
pub mod WrittenLaws
pub mod KnownLaws
