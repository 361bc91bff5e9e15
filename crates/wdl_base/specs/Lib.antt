pub mod Plain
pub mod Names
pub mod Bodies
pub mod Answers
pub mod Places
pub mod Same
pub mod PlaceReading
pub mod Templates
