pub mod Causes
pub mod Told
pub mod Files
pub mod Memory
pub mod Table
pub mod Rows
pub mod Spots
