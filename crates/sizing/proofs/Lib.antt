-- Laws of the count.
pub mod Counts
