mod DepthLemmas
mod LevelLemmas
