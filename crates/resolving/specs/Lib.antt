-- What the contracts of `resolving` cite.
pub mod Settles
