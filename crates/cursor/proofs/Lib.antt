-- Laws of positions, of the machine's moves, of words, and of the readers of signs.
pub mod Lines
pub mod Moving
pub mod Words
pub mod Signed
