-- The laws of signs that wait.
pub mod Pops
pub mod Pushes
