-- Laws of the first byte.
pub mod Firsts
