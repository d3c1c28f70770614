-- Laws of the formulas behind a place.
pub mod Peels
