pub mod Answering
pub mod Calls
pub mod Holding
pub mod Plans
pub mod Renewals
pub mod Settling
