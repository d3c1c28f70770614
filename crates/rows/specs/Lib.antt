-- What the contracts of `rows` cite.
pub mod Sums
