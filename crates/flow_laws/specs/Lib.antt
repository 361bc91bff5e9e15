pub mod Below
pub mod Jobs
pub mod Laws
