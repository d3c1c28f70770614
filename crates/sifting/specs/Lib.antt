-- What the contracts of `sifting` cite.
pub mod Sifted
