pub mod Plain
pub mod Images
pub mod Objects
pub mod Given
