pub mod Back
pub mod Lines
pub mod Within
pub mod Written
