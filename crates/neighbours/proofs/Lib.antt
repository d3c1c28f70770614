-- What is proved of neighbours.
pub mod Steps
