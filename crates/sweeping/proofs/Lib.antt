-- Laws of resolving in place.
pub mod Nodes
pub mod Wholes
pub mod Passes
