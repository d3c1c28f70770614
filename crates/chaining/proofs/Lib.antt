-- Laws of chains.
pub mod Raising
