pub mod Declarations
pub mod Expressions
pub mod Laws
pub mod Names
pub mod Writes
pub mod WriteCalls
