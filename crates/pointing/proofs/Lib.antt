-- Laws of places that are shown.
pub mod Windows
pub mod Columns
