pub mod Readiness
pub mod Soundness
pub mod StatementFlow
