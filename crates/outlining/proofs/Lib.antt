-- Laws of the formula that begins at a place, and of outlines.
pub mod Heads
pub mod Outlines
