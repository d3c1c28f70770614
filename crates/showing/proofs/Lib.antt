-- Laws of showing.
pub mod Words
pub mod Pens
pub mod Ends
pub mod Nodes
pub mod Steps
pub mod Turns
