-- Laws of a row's bytes.
pub mod Fields
pub mod Written
