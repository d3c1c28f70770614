-- Laws of the lines for people.
pub mod Boards
