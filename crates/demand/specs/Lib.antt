-- The third demand: what a reader has to believe of calls by their promises, of a watch of them, and of what is claimed of it.
pub mod Called
pub mod Claims
pub mod Demanded
pub mod OnePlace
pub mod Stopping
pub mod Singly
pub mod Capturing
