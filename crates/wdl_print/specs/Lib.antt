pub mod TokenText
pub mod Printed
