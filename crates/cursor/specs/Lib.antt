-- A position in a text, what it is for the machine to go from one to another, and what each reader has read.
pub mod Positions
pub mod Readers
