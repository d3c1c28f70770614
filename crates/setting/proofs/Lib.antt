-- Laws of writing the nodes that tokens spell.
pub mod Spelling
pub mod Writing
