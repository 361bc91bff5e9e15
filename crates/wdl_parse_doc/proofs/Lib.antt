pub mod Counts
pub mod Versions
mod Formats
mod Leaves
mod Follows
mod MetaLaws
mod SectionLaws
mod CallLaws
mod StatementLaws
mod BlockLaws
mod TaskLaws
mod DocumentLaws
pub mod ParseLaws
