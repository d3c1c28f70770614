-- Laws of one slot carried over.
pub mod Coded
pub mod Slots
