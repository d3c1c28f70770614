-- Laws of the codes, for `kinds` and for the theory above it.
pub mod Codes
