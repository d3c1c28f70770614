-- The split network over formulas: what a reader has to believe of splitting, stepping and closing, apart from the state's bytes.
pub mod Scores
pub mod Layout
pub mod Tick
