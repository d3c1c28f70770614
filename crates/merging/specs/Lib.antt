-- The merged network: what a reader has to believe of merging.
pub mod Merge
pub mod Lays
