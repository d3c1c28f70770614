-- What the contracts of `stretching` cite.
pub mod Stretch
