pub mod Outcome
pub mod Forms
pub mod Operators
pub mod Strings
pub mod TypeGrammar
pub mod TypeReading
pub mod Nests
