pub mod RowText
pub mod Written
pub mod Entries
pub mod Members
pub mod Ahead
pub mod Reads
