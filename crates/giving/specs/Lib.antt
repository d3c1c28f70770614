-- What the contracts of `giving` cite.
pub mod Give
pub mod Stray
