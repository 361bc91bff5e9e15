pub mod CountLaws
pub mod InputLaws
pub mod Marks
pub mod NamingLaws
pub mod PlaceLaws
pub mod Unswapped
