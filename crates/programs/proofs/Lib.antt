-- Laws of where the bytes that came stand.
pub mod Standing
