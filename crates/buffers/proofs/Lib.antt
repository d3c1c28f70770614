-- Laws of runs of bytes.
pub mod Turns
pub mod Moves
pub mod Comparisons
