-- What the walk over a workflow makes, in the words of the image.
pub mod Blocks
pub mod Calls
pub mod Drafts
