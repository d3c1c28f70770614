-- What the contracts of `sizing` cite.
pub mod Sizes
pub mod Sums
