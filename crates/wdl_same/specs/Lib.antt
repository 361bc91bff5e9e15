pub mod Words
pub mod Exprs
pub mod Lists
pub mod Tasks
pub mod Partners
pub mod Forms
pub mod Laws
