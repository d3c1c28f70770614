-- What the walks from byte to byte cite.
pub mod Peeled
