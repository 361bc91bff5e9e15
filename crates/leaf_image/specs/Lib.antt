pub mod Agreement
pub mod Inside
pub mod Leaves
pub mod Reached
pub mod Records
pub mod Replaced
