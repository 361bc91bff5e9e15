pub mod SameAtDepth
