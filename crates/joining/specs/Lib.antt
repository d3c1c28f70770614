-- What the contracts of `joining` cite.
pub mod Members
pub mod Joins
