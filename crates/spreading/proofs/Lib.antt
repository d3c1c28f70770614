-- Laws of spreading.
pub mod Room
pub mod Places
pub mod Turns
pub mod Putting
pub mod Done
