-- Laws of the tables.
pub mod Runs
pub mod Counting
pub mod Turning
pub mod TableRows
