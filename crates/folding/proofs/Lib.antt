-- Laws of folding over bytes.
pub mod Notes
pub mod Placed
pub mod Becomes
pub mod Made
pub mod Pairs
pub mod Bares
pub mod Nodes
pub mod Passes
