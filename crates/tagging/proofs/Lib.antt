-- Laws of tags.
pub mod Packing
pub mod Places
pub mod Tops
pub mod Walks
