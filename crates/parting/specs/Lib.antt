-- What the contracts of `parting`, and of the walks that look at parts, cite.
pub mod Parts
pub mod Tops
