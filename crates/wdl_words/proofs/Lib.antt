pub mod Numbers
pub mod Slashes
pub mod ReadLaws
pub mod Found
pub mod Limits
