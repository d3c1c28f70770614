-- What the contracts of `tagging` cite.
pub mod Packed
pub mod Tags
