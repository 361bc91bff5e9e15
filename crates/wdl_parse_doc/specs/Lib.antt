pub mod Grammar
pub mod Context
pub mod Contract
pub mod Reading
