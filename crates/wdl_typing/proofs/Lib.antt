mod PieceLemmas
mod PlainTypes
