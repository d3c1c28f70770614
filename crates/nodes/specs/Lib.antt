-- What the contracts of `nodes`, and of the walks over formula bytes above it, cite.
pub mod Begins
