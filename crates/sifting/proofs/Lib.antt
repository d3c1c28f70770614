-- What is proved of sifting.
pub mod Turning
pub mod Stretches
