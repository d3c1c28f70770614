-- What the contracts of `cutting` cite.
pub mod Cuts
