-- The laws of the grammar.
pub mod Signs
pub mod Accepts
pub mod Derives
pub mod Stops
pub mod Builds
pub mod Unique
pub mod Prints
pub mod Fewest
pub mod Worked
