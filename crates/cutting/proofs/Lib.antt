-- Laws of cuts.
pub mod Choices
pub mod Looking
pub mod Nodes
pub mod Walks
