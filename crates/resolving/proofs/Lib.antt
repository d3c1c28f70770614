-- Laws of resolving in place.
pub mod Coded
