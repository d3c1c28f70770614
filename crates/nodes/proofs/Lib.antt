-- Laws of bytes that begin with a formula, for every walk over them.
pub mod Fronts
pub mod Wholes
pub mod Operands
pub mod Ends
