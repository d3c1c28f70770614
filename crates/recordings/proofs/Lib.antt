-- What is proved of recordings.
pub mod Neighbours
pub mod Twice
pub mod Stretch
pub mod Places
pub mod Bytes
pub mod Worked
