-- A text has as many nodes as its formula, and the laws of the pass.
pub mod Nodes
pub mod Takes
pub mod Passes
