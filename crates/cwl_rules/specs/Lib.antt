-- What the code keeps of the places where rules are broken.
pub mod Casts
pub mod Lowest
pub mod Roles
pub mod Verbatim
