mod FreeNames
mod MarkLaws
mod FindLaws
mod NewNames
mod Untaken
mod Whole
