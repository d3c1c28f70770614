-- What the contracts of `unfolding` cite.
pub mod Unfolds
pub mod Tasks
pub mod Stages
