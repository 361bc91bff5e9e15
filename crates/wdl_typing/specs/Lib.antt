pub mod Pieces
pub mod Standings
pub mod Types
