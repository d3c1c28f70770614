-- What the contracts of `settling` and `stepping` cite.
pub mod Step
pub mod Putting
