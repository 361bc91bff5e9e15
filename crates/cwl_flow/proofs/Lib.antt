pub mod BlockSteps
pub mod Firsts
pub mod Found
pub mod Plain
pub mod Signatures
pub mod Walks
