-- What the code keeps of the places where rules are broken.
pub mod Tables
pub mod Walks
pub mod Refusals
