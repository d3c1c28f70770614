-- Laws of counting over plain lists.
pub mod Held
pub mod Adding
pub mod Summing
pub mod Levels
pub mod Networks
pub mod Slots
pub mod Filling
