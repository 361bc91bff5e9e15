pub mod Grammar
pub mod Context
pub mod Reading
pub mod Nests
pub mod Contract
