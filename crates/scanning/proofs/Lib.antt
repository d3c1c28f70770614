-- Laws of the pass over a slot's bytes.
pub mod Passes
pub mod Owing
