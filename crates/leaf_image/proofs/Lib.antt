pub mod Bodies
pub mod Eaches
pub mod ExpandLaws
pub mod InsideLaws
pub mod Runs
