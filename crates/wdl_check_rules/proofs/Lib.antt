pub mod FindLemmas
pub mod MemberLaws
