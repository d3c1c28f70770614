-- Laws of the bytes that came.
pub mod Coming
