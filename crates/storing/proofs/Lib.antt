-- Laws of a state's bytes as they are written.
pub mod Zeros
pub mod Written
pub mod Asked
