-- Laws of what the calls answer.
pub mod Few
pub mod Mended
