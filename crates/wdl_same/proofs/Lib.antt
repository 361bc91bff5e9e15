pub mod Equal
pub mod Plain
pub mod PlainTasks
pub mod Paired
pub mod SameCalls
pub mod SameForms
