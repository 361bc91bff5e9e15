pub mod OneClosing
pub mod TypesByNames
pub mod SeenSections
pub mod OneStructs
