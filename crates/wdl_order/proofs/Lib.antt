pub mod Numbers
pub mod Greedy
pub mod Keeping
pub mod Names
pub mod Numbered
pub mod LeastLaws
