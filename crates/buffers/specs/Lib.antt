-- What the contracts of `buffers` cite.
pub mod Compares
