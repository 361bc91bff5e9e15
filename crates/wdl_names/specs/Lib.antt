pub mod Firsts
pub mod Fresh
pub mod KeyTexts
pub mod Marks
pub mod Names
